mod Reported
pub mod Fetched
pub mod Sayings
pub mod Unread
pub mod Forming
