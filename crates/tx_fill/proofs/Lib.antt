pub mod Carried
pub mod Connected
pub mod FewHops
pub mod LinesAt
pub mod OneRouted
pub mod Settled
pub mod Common
