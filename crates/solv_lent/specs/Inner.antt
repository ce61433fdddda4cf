-- What holds inside.
pub mod Asked
