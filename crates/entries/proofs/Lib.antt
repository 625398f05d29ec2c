pub mod EntryLaws
pub mod PieceLaws
pub mod FeedLaws
pub mod StartLaws
