pub mod Moves
pub mod Columns
pub mod Ends
pub mod Sizes
