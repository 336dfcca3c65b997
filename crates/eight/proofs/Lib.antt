pub mod Linear
pub mod AtOnce
