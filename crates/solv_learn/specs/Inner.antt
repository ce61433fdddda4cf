-- Words of contracts between layers, and what holds inside.
pub mod Collecting
pub mod Learning
pub mod Marks
pub mod Places
pub mod Refuting
