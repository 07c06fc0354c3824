pub mod Scripts
pub mod Rows
pub mod Places
pub mod Causes
pub mod Writing
pub mod Jobs
pub mod Laws
