pub mod Tokens
pub mod Evr
pub mod Matching
pub mod Dependency
pub mod Places
pub mod Pool
pub mod RelationLaws
pub mod Inner
