pub mod ToldLaws
pub mod FileLaws
pub mod CauseLaws
pub mod PointLaws
pub mod ProgramLaws
pub mod KnownValues
