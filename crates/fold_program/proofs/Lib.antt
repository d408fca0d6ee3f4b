mod KnownValues
mod BrickLaws
mod ViewLaws
mod BreakLaws
mod SumLaws
mod MissLaws
mod FeasibleLaws
mod ScanLaws
mod BoundLaws
mod AcceptLaws
mod PartsLaws
mod CostLaws
pub mod PointLaws
mod RestLaws
pub mod PlaceLaws
