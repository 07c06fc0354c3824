pub mod Opened
pub mod Taken
pub mod Frames
pub mod Telling
