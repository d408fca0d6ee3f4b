pub mod Outside
pub mod MemFolder
