pub mod Counts
pub mod Pairs
pub mod Tables
pub mod Ranks
pub mod RanksSoFar
pub mod Written
pub mod Reading
pub mod Common
