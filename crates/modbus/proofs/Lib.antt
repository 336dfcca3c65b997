pub mod Stores
pub mod Rows
pub mod Frames
pub mod Judged
