pub mod Keeping
pub mod Cache
pub mod Laws
pub mod Lines
pub mod Mapped
