pub mod Points
pub mod Answers
