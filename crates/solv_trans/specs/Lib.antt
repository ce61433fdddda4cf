pub mod Effects
pub mod Changes
pub mod Moving
pub mod Edges
pub mod Orders
pub mod Inner
