-- Words of contracts between layers, and what holds inside.
pub mod ByOutput
pub mod Checks
pub mod Outcomes
pub mod Phases
pub mod Proofs
pub mod Rounds
pub mod Texts
