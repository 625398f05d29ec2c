pub mod Boundary
pub mod Exact
pub mod Walk
pub mod Steps
pub mod Calls
