pub mod Begun
pub mod Taking
