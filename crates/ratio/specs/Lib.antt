pub mod Ratios
pub mod Powers
pub mod Steps
