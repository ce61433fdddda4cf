pub mod Forced
pub mod Logs
pub mod Leaves
pub mod Range
pub mod Laws
pub mod Inner
pub mod Trimming
