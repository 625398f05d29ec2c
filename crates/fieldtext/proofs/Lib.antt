pub mod JudgeLaws
pub mod StreamLaws
