pub mod Outcomes
pub mod Texts
pub mod Written
