pub mod Words
pub mod Folds
pub mod Pairs
pub mod Published
