pub mod Flat
pub mod Entries
pub mod Fill
pub mod Tree
pub mod Laws
pub mod Plain
pub mod Sound
