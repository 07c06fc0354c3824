pub mod Both
pub mod Lines
pub mod Trees
pub mod Jobs
pub mod Laws
