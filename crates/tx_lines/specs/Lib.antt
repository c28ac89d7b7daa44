pub mod Status
pub mod Book
pub mod inner
