pub mod Joined
pub mod Lists
pub mod Asking
pub mod Marked
pub mod Owned
pub mod Apart
pub mod Whole
pub mod Places
pub mod Embedded
pub mod Parted
mod Pairs
mod Listing
mod Greatest
mod Same
mod Restored
mod Rising
