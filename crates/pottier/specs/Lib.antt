pub mod Partners
pub mod Stages
pub mod Ranks
pub mod Queues
pub mod Bases
pub mod Faults
