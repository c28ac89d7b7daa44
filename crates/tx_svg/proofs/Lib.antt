pub mod Indexed
pub mod Ranked
pub mod Texts
pub mod Common
