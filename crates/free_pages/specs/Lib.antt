pub mod Walk
pub mod Keeping
pub mod Stored
pub mod Free
pub mod Opened
pub mod Laws
pub mod Commits
