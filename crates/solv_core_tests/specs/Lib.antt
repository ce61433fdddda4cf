pub mod OnePackage
pub mod FollowedByHand
