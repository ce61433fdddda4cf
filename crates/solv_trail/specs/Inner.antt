-- Words of contracts between layers, and what holds inside.
pub mod Asked
pub mod Derivation
pub mod Descends
pub mod Held
pub mod Numbers
pub mod Propagated
pub mod Used
pub mod Walk
