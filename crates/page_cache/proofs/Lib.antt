mod Examples
pub mod Pairs
pub mod Agreement
pub mod OnLines
pub mod Published
