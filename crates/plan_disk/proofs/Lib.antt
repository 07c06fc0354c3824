pub mod Pages
pub mod Steps
pub mod Bases
pub mod Firsts
pub mod Published
