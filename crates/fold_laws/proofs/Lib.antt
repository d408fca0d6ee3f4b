pub mod Bounds
pub mod Points
pub mod Rests
