pub mod MenuLaws
pub mod Steps
pub mod Known
pub mod Joining
pub mod Finding
pub mod TableLaws
