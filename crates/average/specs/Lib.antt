pub mod Windows
pub mod Fits
