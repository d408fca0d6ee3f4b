pub mod CostText
pub mod RelationText
pub mod Reading
pub mod Faults
pub mod Causes
