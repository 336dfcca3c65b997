pub mod Parts
pub mod Cases
pub mod Outcomes
pub mod Accepts
pub mod Sums
