pub mod Askers
pub mod Reads
pub mod Board
