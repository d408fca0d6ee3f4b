pub mod Allowed
pub mod Offering
pub mod Closing
