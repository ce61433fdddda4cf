pub mod Turned
pub mod FirstLimits
