pub mod Statuses
pub mod Telling
mod Taken
pub mod Spaces
pub mod Audited
pub mod Ends
pub mod Shaped
pub mod Unsound
mod Joined
pub mod Published
