pub mod Alone
pub mod Declared
pub mod Taken
pub mod Ranges
