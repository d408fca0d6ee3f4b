pub mod Images
pub mod Bounds
