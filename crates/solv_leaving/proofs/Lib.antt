pub mod Within
pub mod Made
pub mod NoneOut
pub mod Totals
pub mod ClauseWords
pub mod RequiredWords
pub mod AllRules
pub mod Bounds
pub mod Plain
pub mod Begun
pub mod Left
mod NoConditions
pub mod Closed
pub mod Untouched
