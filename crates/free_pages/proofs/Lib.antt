mod Ascending
mod Examples
mod Flags
mod Given
pub mod Members
mod Places
mod Released
mod SoundWalk
mod Sorting
pub mod Commits
mod Steps
mod Toured
mod Whole
mod WholeWalk
pub mod Published
