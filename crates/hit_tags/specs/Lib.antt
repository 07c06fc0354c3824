pub mod Comes
pub mod Tags
pub mod Wanted
pub mod Steps
