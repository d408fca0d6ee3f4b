pub mod Files
pub mod Parts
pub mod Refusals
pub mod Faults
pub mod Points
pub mod Places
pub mod Bounds
pub mod Kept
