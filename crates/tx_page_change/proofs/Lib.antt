pub mod AloneIn
pub mod AnyBelow
pub mod Common
pub mod Texts
