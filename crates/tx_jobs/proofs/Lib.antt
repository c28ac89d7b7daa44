mod RefusedTexts
mod Piping
mod Breaking
mod Simulating
mod ToldRuns
mod EndLines
mod Cutting
mod Taking
pub mod PartCalls
pub mod PlanCalls
pub mod Common
