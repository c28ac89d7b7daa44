pub mod LineWords
pub mod LinesLeft
pub mod Apart
