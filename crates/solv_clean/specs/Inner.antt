-- Words of contracts between layers, and what holds inside.
pub mod Finding
pub mod Holding
pub mod Joining
pub mod Naming
pub mod Readiness
pub mod Searching
pub mod Tables
pub mod Unneeded
