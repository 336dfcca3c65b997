pub mod Halves
pub mod Signs
pub mod Sums
