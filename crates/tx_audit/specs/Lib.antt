pub mod Audits
pub mod CheckedRuns
pub mod Counter
pub mod Breaks
pub mod Scripts
pub mod inner
pub mod Simulated
