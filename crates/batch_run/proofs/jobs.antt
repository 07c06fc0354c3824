pub mod Given
pub mod Piling
pub mod Puts
pub mod OneRun
pub mod Running
pub mod Opened
pub mod Whole
