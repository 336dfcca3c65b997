pub mod Requests
pub mod Judged
