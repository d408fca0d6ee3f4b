pub mod Half
pub mod Counting
pub mod PowersOfTwo
pub mod Clipped
pub mod Times
pub mod Lengths
pub mod Gains
pub mod UsedUp
pub mod LeftToGain
pub mod FewSteps
mod KnownValues
