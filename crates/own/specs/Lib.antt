pub mod Table
pub mod Own
pub mod OwnRules
pub mod Kinds
