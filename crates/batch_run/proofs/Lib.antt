pub mod Holding
pub mod Seats
pub mod Counting
pub mod Parts
pub mod Gathered
pub mod Joining
pub mod Published
