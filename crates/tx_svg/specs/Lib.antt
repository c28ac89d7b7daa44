pub mod Indexed
pub mod ListTexts
pub mod RingTexts
pub mod inner
