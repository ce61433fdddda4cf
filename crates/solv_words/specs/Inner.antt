-- Words of inner contracts.
pub mod Accepted
pub mod Clap
pub mod ByKinds
