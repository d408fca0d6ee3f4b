pub mod PairLaws
pub mod StageLaws
pub mod PartnerLaws
pub mod RankLaws
pub mod QueueLaws
pub mod RowLaws
pub mod BasisLaws
pub mod MemberLaws
mod KnownValues
