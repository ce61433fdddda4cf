-- Words of contracts between layers, and what holds inside.
pub mod Contradictions
pub mod Cores
pub mod Happened
pub mod Holding
pub mod Learnings
pub mod Ledgers
pub mod Probing
pub mod Meeting
pub mod Numbered
pub mod NumberedLaw
pub mod Running
pub mod Settling
pub mod Turns
