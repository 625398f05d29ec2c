pub mod Entries
pub mod Feeds
pub mod Turn
