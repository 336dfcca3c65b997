pub mod Places
pub mod Parts
pub mod When
pub mod Turns
pub mod Rows
pub mod OneByOne
pub mod Joins
