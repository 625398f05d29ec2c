pub mod TruthLaws
pub mod KeyLaws
pub mod HoldLaws
pub mod NumberLaws
pub mod RepeatLaws
pub mod EntryLaws
pub mod Examples
