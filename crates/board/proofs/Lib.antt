pub mod Sent
pub mod Cases
pub mod Lengths
pub mod Rooms
