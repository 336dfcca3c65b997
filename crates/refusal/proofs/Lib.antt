pub mod Distinct
pub mod Exactly
pub mod Shown
