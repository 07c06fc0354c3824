pub mod Lines
pub mod Spaces
pub mod Jobs
pub mod Reads
pub mod Shapes
pub mod Laws
pub mod Logs
