pub mod Run
pub mod Files
