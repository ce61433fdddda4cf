pub mod ClapArguments
pub mod ClapForm
pub mod ClapNumbers
pub mod ClapWalk
pub mod ClapWords
pub mod NamedArguments
