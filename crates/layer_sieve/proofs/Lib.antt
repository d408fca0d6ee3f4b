pub mod KeptLaws
pub mod SumLaws
pub mod TargetLaws
pub mod ReachLaws
pub mod FlagLaws
pub mod WiderLaws
pub mod TriedLaws
