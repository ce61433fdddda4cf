-- Words of contracts between layers.
pub mod Dues
pub mod Faults
pub mod Parts
