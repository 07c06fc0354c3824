pub mod Named
pub mod Folders
pub mod Host
