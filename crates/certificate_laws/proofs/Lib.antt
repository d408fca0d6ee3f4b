pub mod Passing
pub mod BrickRuns
pub mod StuckBricks
pub mod BrickSums
pub mod PhaseRuns
pub mod Potentials
pub mod Beginnings
pub mod FoldRules
pub mod Accepted
mod KnownValues
mod KnownOutcomes
