pub mod Ordered
pub mod Kept
