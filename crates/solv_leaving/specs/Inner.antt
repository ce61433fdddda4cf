-- Words of contracts between layers, and what holds inside.
pub mod Checking
pub mod Fitting
pub mod Starting
pub mod Wise
pub mod Leaving
