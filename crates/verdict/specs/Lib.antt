pub mod Verdict
pub mod Track
pub mod Examples
