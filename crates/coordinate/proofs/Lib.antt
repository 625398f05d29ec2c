pub mod CoordinateLaws
pub mod ReadLaws
pub mod Examples
