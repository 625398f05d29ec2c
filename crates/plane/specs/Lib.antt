pub mod Corners
pub mod Lent
pub mod Scan
