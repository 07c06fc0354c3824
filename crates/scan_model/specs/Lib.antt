pub mod Ordered
pub mod Hits
pub mod Scan
pub mod Join
pub mod Laws
