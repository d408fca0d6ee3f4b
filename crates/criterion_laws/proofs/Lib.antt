pub mod Units
pub mod Clashes
pub mod Turned
pub mod Settled
pub mod Cuts
pub mod Prefixes
mod KnownValues
