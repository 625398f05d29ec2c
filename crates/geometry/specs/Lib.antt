pub mod Plane
pub mod Tests
