pub mod BookAnswer
pub mod Step
pub mod Check
pub mod Loads
pub mod Ranges
