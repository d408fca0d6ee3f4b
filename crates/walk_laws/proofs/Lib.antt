pub mod Orders
pub mod Walks
pub mod BestWalks
pub mod Candidates
pub mod BestSteps
