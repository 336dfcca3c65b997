pub mod Values
pub mod Widths
