pub mod Rows
pub mod Marked
pub mod Left
pub mod Orders
pub mod Nearest
pub mod Cutting
pub mod Hits
pub mod InOrder
