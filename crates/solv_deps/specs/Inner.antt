-- Words of contracts between layers, and what holds inside.
pub mod Appending
pub mod Drafts
pub mod Entering
pub mod Points
pub mod Reading
pub mod Recent
pub mod Signs
pub mod Singles
pub mod Words
