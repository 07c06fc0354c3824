pub mod Bytes
pub mod Heads
pub mod Slots
pub mod Opening
pub mod Laws
pub mod Nodes
