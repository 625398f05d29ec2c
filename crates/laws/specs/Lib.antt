pub mod Tab
pub mod Bits
pub mod Lists
pub mod Ascii
pub mod Count
