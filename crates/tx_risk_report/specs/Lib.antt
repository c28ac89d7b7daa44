pub mod Shown
pub mod OutageReport
pub mod Comparison
