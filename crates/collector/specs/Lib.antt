pub mod Collector
pub mod Each
pub mod When
pub mod Whole
