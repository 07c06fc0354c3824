pub mod Asking
pub mod PagesOf
pub mod Published
