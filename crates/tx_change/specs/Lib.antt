pub mod ChangeNets
pub mod ChangeFindings
pub mod Shown
pub mod MixtureShown
pub mod ChangeReport
pub mod ChangeAnswers
pub mod ClosedCodes
pub mod inner
