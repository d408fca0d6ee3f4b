pub mod Places
pub mod Closure
