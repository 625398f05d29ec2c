pub mod FaultLaws
pub mod TrackLaws
pub mod FoundLaws
pub mod JudgedLaws
pub mod Examples
