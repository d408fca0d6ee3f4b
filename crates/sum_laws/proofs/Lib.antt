pub mod FoldLaws
