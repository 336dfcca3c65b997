pub mod Frame
pub mod Read
pub mod Replies
