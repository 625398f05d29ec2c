pub mod Whole
pub mod Fresh
pub mod Count
pub mod Read
pub mod Kept
pub mod Limits
pub mod Run
pub mod Examples
