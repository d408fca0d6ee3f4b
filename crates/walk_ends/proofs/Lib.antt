pub mod EndLaws
pub mod CallerLemmas
