-- Words of contracts between layers, and what holds inside.
pub mod Changes
pub mod Edges
pub mod Effects
pub mod Joining
pub mod Order
pub mod Parting
pub mod Readiness
