pub mod Entries
pub mod Sets
pub mod Order
pub mod Arranged
pub mod ByCode
mod Parts
pub mod Common
