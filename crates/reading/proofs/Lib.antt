pub mod ByKind
pub mod Told
pub mod Wide
pub mod Cells
pub mod Apart
