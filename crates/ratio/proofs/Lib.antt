pub mod Steps
pub mod Powers
