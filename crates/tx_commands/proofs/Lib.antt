pub mod AllTables
pub mod Found
pub mod Grammars
pub mod Named
pub mod Common
