pub mod Groups
pub mod Linked
pub mod Seen
pub mod Slots
