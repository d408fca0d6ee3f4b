mod Decisions
mod Greatest
pub mod AllGains
pub mod Keys
