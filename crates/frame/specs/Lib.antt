pub mod Frame
pub mod Edges
pub mod Mask
pub mod Ops
pub mod InTable
pub mod Reached
