pub mod Draws
pub mod Transports
