pub mod Headings
pub mod Entries
pub mod Testtags
pub mod EntryForms
pub mod Inner
