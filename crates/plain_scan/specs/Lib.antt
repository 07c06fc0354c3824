pub mod OpenCursors
pub mod List
pub mod Written
