-- Words of contracts between layers, and what holds inside.
pub mod Layout
pub mod Lending
pub mod Literals
pub mod Moving
pub mod Ownership
pub mod Packing
