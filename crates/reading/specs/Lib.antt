pub mod Told
pub mod Readings
pub mod Cells
