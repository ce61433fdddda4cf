-- Words of contracts between layers, and what holds inside.
pub mod Counters
pub mod Fetches
pub mod Statuses
