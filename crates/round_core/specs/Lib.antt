pub mod Rounds
pub mod Allowed
pub mod Steps
pub mod Sound
