pub mod Reasons
pub mod Walks
pub mod Frames
pub mod Jobs
pub mod Steps
pub mod Laws
