pub mod Without
pub mod inner
