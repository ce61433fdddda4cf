pub mod Deciding
pub mod Sets
pub mod Inner
