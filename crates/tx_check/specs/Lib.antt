pub mod Checks
pub mod Verdicts
pub mod Confirmed
pub mod inner
