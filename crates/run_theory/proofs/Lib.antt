pub mod KnownValues
mod KnownLive
mod KnownLimits
