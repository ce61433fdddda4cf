pub mod Enabling
pub mod Answering
pub mod Whole
pub mod SetOf
