pub mod SignedWords
pub mod Shown
pub mod Typed
