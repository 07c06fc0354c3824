pub mod Space
pub mod Pruning
pub mod Counts
pub mod Rows
pub mod Lists
pub mod Points
