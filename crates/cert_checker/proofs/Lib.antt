mod KnownValues
pub mod StepLaws
pub mod ShapeLaws
pub mod YesLaws
pub mod PointLaws
pub mod FoldLaws
