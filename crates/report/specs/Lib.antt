pub mod Report
pub mod Prints
