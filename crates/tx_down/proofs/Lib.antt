mod Taking
mod Over
mod Rules
mod NextRoute
pub mod Common
