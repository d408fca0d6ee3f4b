pub mod SumLaws
pub mod CallerLemmas
