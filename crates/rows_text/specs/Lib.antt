pub mod Numbers
pub mod Records
pub mod Script
pub mod Reading
pub mod Meaning
pub mod Readable
pub mod Texts
