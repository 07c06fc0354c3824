pub mod Touring
pub mod Published
