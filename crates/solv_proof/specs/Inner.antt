-- Words of contracts between layers, and what holds inside.
pub mod Readers
pub mod Texts
pub mod Words
