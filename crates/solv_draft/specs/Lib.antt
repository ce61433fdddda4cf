pub mod Drafts
pub mod JobRows
pub mod Inner
