pub mod Entries
pub mod Calls
pub mod Steps
pub mod Shown
pub mod Begun
pub mod Published
