pub mod Refusals
pub mod Signs
