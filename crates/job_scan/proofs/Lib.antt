mod Endings
pub mod Published
