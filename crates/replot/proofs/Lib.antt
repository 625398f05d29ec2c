pub mod PartlyLaws
pub mod NearestLaws
pub mod TrackLaws
