pub mod Decided
pub mod Stands
pub mod Order
pub mod Places
pub mod Kept
pub mod Bounds
pub mod EachEvent
pub mod Ends
pub mod Gains
mod KnownValues
