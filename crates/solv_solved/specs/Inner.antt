-- What holds inside.
pub mod Answering
pub mod Besides
pub mod Finding
pub mod Limits
pub mod Proving
pub mod CallNames
pub mod Tellings
