pub mod CodeRanks
pub mod Local
pub mod Pairs
pub mod Full
