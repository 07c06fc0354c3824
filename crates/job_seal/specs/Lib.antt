pub mod Carries
pub mod Seals
pub mod Proofs
pub mod Laws
