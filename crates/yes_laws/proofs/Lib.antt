pub mod BrickSteps
pub mod BrickMisses
pub mod Layers
pub mod Potentials
pub mod ListedSums
pub mod Accepted
mod KnownBricks
mod KnownValues
