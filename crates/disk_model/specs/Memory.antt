-- The disk in memory: its own model, which only its contracts and its tests need. `Model` says what it holds and when its calls
-- fail. `Images` says what a crash may leave of it. The other modules say how the code keeps this.
pub mod Model
pub mod Images
pub mod Files
pub mod Laws
pub mod Record
pub mod RecordView
pub mod DiskView
pub mod Replay
