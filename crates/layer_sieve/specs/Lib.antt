pub mod Targets
pub mod Reaching
pub mod Layers
pub mod Falls
pub mod Tried
