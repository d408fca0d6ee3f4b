pub mod UnitSteps
pub mod Best
pub mod BrickRuns
pub mod Stuck
pub mod PhaseRuns
pub mod Lengths
pub mod TrueOutcomes
mod KnownValues
pub mod SmallPrograms
