pub mod Joined
pub mod Contradictions
pub mod Refusals
pub mod Differences
pub mod Steps
pub mod ListCounts
pub mod Laws
pub mod inner
