pub mod Heading
pub mod WrongTexts
pub mod CodeTexts
pub mod OutageTexts
pub mod NetworkTexts
pub mod Page
pub mod Decision
