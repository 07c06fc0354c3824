pub mod Steps
pub mod Answered
pub mod OneCourse
