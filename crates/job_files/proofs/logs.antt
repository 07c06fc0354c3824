pub mod Texts
pub mod Puts
pub mod Frames
pub mod Audits
pub mod Ends
pub mod Showing
pub mod Within
