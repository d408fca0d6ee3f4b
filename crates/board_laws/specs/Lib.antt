pub mod Indexes
pub mod Views
pub mod Boards
pub mod Closing
