pub mod Terms
pub mod ConformalSums
pub mod Reductions
pub mod CompleteLists
pub mod Parts
pub mod Kernels
pub mod Coverings
pub mod SlackBases
pub mod GraverBases
mod KnownValues
