pub mod Live
pub mod Commit
pub mod Opening
pub mod Making
pub mod Placements
