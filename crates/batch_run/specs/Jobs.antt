pub mod Preparing
pub mod Batches
pub mod Putting
pub mod Laws
