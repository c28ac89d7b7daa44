pub mod Escapes
pub mod Showing
pub mod Threes
