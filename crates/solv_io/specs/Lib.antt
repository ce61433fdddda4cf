pub mod Counters
pub mod Writes
pub mod Lines
pub mod Words
pub mod JoinedWords
pub mod Fetches
pub mod Reading
pub mod Inner
