pub mod TableLaws
pub mod GivenLaws
