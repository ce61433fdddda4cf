pub mod Asked
pub mod Unbroken
pub mod Before
pub mod Seeds
