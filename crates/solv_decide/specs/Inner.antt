-- Words of contracts between layers, and what holds inside.
pub mod Deciding
pub mod GuideLaw
pub mod Serving
pub mod Sets
pub mod Rests
