pub mod Certified
pub mod Asked
