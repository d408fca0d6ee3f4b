pub mod Lists
pub mod Vectors
pub mod Matrices
pub mod Lattices
pub mod BasisLimits
pub mod SignedSums
