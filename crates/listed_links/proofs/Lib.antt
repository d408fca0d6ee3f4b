pub mod RowLaws
pub mod ImageLaws
pub mod BoundLaws
