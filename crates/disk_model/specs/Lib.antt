pub mod Disk
pub mod Shared
pub mod Moments
pub mod FileCounts
pub mod Memory
