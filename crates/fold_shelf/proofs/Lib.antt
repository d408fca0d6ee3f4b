pub mod Counts
pub mod Reading
pub mod Places
pub mod KnownValues
