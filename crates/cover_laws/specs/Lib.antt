pub mod Elements
pub mod ConformalSums
pub mod Graver
