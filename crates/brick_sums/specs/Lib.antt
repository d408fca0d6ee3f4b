pub mod Generators
pub mod Places
pub mod Levels
pub mod Refusals
