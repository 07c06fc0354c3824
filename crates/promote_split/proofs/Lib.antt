pub mod Least
pub mod Halved
pub mod Costs
