-- Words of contracts between layers, and what holds inside.
pub mod Comparisons
pub mod Evr
pub mod Hashing
pub mod Heads
pub mod Pool
pub mod Standings
pub mod Texts
pub mod VersionLaws
