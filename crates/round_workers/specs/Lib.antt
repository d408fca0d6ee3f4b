pub mod Looks
pub mod Menus
pub mod Tasks
pub mod Workers
