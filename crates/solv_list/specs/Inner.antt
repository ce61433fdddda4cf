-- How values lie, which inner contracts alone name.
pub mod Layout
