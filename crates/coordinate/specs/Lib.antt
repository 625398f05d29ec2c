pub mod Coordinate
pub mod Exact
