pub mod BoundLaws
pub mod RingLaws
pub mod OrderLaws
