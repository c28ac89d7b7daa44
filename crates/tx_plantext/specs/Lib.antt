pub mod PlanText
pub mod PlanWritten
pub mod PlanFaults
pub mod Revised
pub mod Difference
pub mod inner
pub mod ChangedLists
