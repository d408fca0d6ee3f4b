pub mod Seats
pub mod Fates
pub mod Orders
pub mod Frames
pub mod Claims
pub mod Marks
pub mod Stores
pub mod Loads
pub mod Exchanges
pub mod Splits
pub mod Joins
pub mod Reached
pub mod Tells
pub mod Ends
mod KnownValues
