pub mod Joined
pub mod Changed
pub mod Kept
pub mod OneNetwork
