pub mod Judged
pub mod Links
pub mod Marks
pub mod NetLaws
pub mod Seen
pub mod Together
