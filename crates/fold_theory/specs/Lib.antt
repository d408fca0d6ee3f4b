pub mod Costs
pub mod Programs
pub mod Breaks
pub mod Verdicts
