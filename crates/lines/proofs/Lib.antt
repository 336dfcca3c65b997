pub mod Ends
pub mod Laws
pub mod Texts
