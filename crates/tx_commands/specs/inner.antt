pub mod Refused
pub mod Takes
