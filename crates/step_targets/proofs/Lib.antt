pub mod BoundLaws
mod KnownValues
