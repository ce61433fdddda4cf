-- Words of contracts between layers, and what holds inside.
pub mod Chains
pub mod Propagating
pub mod Spares
pub mod Watching
