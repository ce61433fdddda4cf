pub mod Collecting
pub mod Inner
