pub mod Changes
pub mod Menus
pub mod Blocks
pub mod Ends
pub mod Tables
pub mod Answers
pub mod Needs
