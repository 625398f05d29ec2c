pub mod Entry
pub mod Text
pub mod Line
pub mod Load
pub mod Holds
pub mod Examples
