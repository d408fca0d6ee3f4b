pub mod ProductLaws
pub mod MultipleLaws
mod TotalLaws
pub mod ZipLaws
pub mod SignLaws
mod KnownValues
