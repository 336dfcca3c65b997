pub mod Samples
pub mod Energies
pub mod Groups
pub mod Meters
pub mod After
pub mod Carried
pub mod Accepts
pub mod Fits
