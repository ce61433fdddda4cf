-- What holds inside.
pub mod Drafts
pub mod Faults
pub mod Calls
