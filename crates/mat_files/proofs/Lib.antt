pub mod MatrixLaws
mod TokenLaws
mod NumberLaws
pub mod WordLaws
pub mod RepeatLaws
pub mod ShapeLaws
pub mod PrintingLaws
pub mod PrintedLaws
mod RoundTrip
mod KnownValues
