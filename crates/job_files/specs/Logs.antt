pub mod Lines
pub mod Files
pub mod JobReports
pub mod Jobs
pub mod Laws
