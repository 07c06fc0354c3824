mod Numbers
mod Closing
mod Mapped
pub mod WrittenLemmas
pub mod Published
