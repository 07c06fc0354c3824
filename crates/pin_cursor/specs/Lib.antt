pub mod Lines
pub mod Order
pub mod Cursor
pub mod Steps
