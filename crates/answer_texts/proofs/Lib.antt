pub mod Behind
pub mod Endings
pub mod Published
