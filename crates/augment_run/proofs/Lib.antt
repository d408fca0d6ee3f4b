pub mod RowLists
pub mod SumRows
pub mod PlanLaws
pub mod SolveLaws
pub mod CertifyLaws
