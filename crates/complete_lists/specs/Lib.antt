pub mod Ranks
pub mod Searches
pub mod Settlers
