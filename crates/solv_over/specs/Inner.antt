-- Words of contracts between layers: all of it serves inner contracts alone.
pub mod Widened
pub mod Trails
pub mod Sums
pub mod Places
pub mod Thinned
