pub mod Counts
pub mod ChangeTexts
pub mod StepTexts
pub mod Numbers
pub mod RowTexts
pub mod WayTexts
pub mod CrewTexts
pub mod inner
