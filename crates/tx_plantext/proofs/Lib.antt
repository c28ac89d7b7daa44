pub mod Counts
pub mod Entries
pub mod ListLines
pub mod Indexes
pub mod PlanLines
pub mod PlanWriting
pub mod RouteLines
pub mod Texts
pub mod Written
mod Alike
mod AmongLines
mod Cuts
mod SamePlans
pub mod Common
