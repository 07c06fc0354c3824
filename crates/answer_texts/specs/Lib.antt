pub mod Asked
pub mod Answered
pub mod Put
pub mod Ending
