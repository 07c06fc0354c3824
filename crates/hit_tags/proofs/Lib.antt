pub mod Taking
pub mod Following
pub mod Showing
pub mod Published
