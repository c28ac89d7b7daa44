pub mod Nodes
pub mod Filling
pub mod Reading
pub mod CodesWritten
pub mod Common
