pub mod Tests
pub mod TestLaws
pub mod TabLaws
pub mod ListLaws
pub mod BitLaws
