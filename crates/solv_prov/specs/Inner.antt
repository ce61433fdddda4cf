-- Words of contracts between layers, and what holds inside.
pub mod Capabilities
pub mod Gathering
pub mod Groups
pub mod Index
pub mod Lists
pub mod Merging
pub mod PartsBy
pub mod Ranking
pub mod Relating
pub mod Seeking
