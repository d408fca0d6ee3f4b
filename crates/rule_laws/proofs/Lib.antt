pub mod Costs
pub mod BestUpTo
pub mod Gains
mod KnownValues
