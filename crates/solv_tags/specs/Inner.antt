-- Words of contracts between layers, and what holds inside.
pub mod Lines
pub mod RepositoryReading
pub mod TagReading
pub mod Pieces
pub mod Tails
pub mod Tags
pub mod Testtags
