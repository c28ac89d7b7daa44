pub mod Finding
pub mod Faultless
pub mod Judging
pub mod PairFaults
pub mod Wrong
pub mod OwnRanks
pub mod Common
