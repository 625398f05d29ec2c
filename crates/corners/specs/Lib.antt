pub mod Corners
pub mod Numbers
