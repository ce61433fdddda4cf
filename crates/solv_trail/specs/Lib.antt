pub mod Walk
pub mod Asked
pub mod Propagated
pub mod Descends
pub mod Inner
