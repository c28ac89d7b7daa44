pub mod Uncalled
pub mod Asking
mod LeftGroups
mod LeftTexts
mod Texts
mod RevisedText
mod StoppedTexts
pub mod Common
