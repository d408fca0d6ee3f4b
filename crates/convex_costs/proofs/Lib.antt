pub mod Products
pub mod Numbers
pub mod Bits
pub mod LineLaws
pub mod Neighbours
pub mod Segments
pub mod Convexity
pub mod Accepted
pub mod CallerLemmas
mod KnownValues
