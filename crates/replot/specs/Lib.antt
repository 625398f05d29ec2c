pub mod Numbers
pub mod Track
pub mod Exact
pub mod Calls
