pub mod CallLines
pub mod Fills
pub mod FillText
