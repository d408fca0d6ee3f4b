mod LinkLaws
mod NormLaws
pub mod MultipleLaws
pub mod SizeLaws
pub mod KernelLaws
mod KnownValues
