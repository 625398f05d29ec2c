pub mod BookLaws
pub mod Demand
pub mod Corollaries
pub mod FeedLaws
pub mod ReadingLaws
pub mod Exactly
