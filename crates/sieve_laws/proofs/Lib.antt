pub mod Cells
pub mod Live
pub mod Lowering
pub mod Tops
pub mod Idle
pub mod Rows
pub mod Existence
mod KnownValues
