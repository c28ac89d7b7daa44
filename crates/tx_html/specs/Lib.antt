pub mod Escaped
pub mod Amounts
pub mod Shows
