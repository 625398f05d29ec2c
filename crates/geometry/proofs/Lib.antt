pub mod FractionLaws
pub mod SegmentLaws
pub mod PlacedLaws
pub mod BoundaryLaws
pub mod ShiftLaws
pub mod CornerLaws
pub mod RectangleLaws
