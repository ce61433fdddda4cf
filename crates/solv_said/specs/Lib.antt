pub mod Dues
pub mod Runs
pub mod Fetches
pub mod Explained
pub mod Inner
