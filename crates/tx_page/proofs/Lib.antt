pub mod StepsOfWalks
pub mod Common
