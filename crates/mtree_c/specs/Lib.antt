pub mod Rooms
pub mod Answers
pub mod Each
pub mod Texts
pub mod Carrying
pub mod Handed
pub mod Making
pub mod Sessions
