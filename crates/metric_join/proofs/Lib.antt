pub mod Examples
pub mod Tours
pub mod Course
pub mod Entries
pub mod Standing
pub mod Pairs
pub mod Stops
pub mod Ends
