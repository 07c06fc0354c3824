pub mod Spaces
pub mod Refusals
pub mod Joined
pub mod Ending
