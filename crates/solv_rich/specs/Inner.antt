-- Words of contracts between layers, and what holds inside.
pub mod Counts
pub mod Expansions
pub mod LongClauses
pub mod Operators
pub mod Shortening
pub mod Singles
