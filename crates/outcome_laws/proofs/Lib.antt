pub mod Runs
pub mod SumLists
pub mod SettledBricks
pub mod OneOutcome
pub mod OneLimit
pub mod OneCertificate
pub mod KnownBases
pub mod KnownValues
mod KnownLimits
