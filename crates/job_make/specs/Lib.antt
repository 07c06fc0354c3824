pub mod Generator
pub mod Filling
pub mod Asking
pub mod Jobs
pub mod Ordering
pub mod Migrating
