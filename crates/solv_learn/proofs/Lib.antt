pub mod Lasts
pub mod Refuting
pub mod Tables
pub mod Collected
pub mod Steps
pub mod Levels
pub mod Learnt
