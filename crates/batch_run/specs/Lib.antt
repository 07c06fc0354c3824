pub mod Images
pub mod Dealing
pub mod Audits
pub mod Jobs
