-- Words of contracts between layers, and what holds inside.
pub mod Forced
pub mod Leaves
pub mod Marks
pub mod Trimming
