pub mod Dealing
pub mod Insertion
pub mod Groups
pub mod Bulk
pub mod Sound
pub mod Splits
pub mod Nearest
