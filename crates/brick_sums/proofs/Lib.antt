pub mod SumLaws
mod IndexLaws
mod LevelLaws
mod FoundLaws
mod ListedLaws
pub mod KnownValues
