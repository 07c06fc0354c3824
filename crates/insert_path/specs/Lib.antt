pub mod Walk
pub mod Descent
pub mod Causes
pub mod Placing
pub mod Roots
