pub mod ChangeLaws
pub mod MenuLaws
pub mod BlockLaws
pub mod LayerLaws
pub mod EndLaws
pub mod FillLaws
pub mod PotentialLaws
pub mod ReadLaws
pub mod NeedLaws
pub mod FloorLaws
pub mod UnderLaws
pub mod PassLaws
pub mod TriedLaws
pub mod BestLaws
mod KnownValues
