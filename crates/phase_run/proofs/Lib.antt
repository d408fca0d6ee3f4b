pub mod FactorLaws
pub mod PointLaws
pub mod StepLaws
pub mod RunLaws
