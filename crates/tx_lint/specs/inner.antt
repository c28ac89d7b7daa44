pub mod Readings
pub mod Marks
pub mod Gatherings
