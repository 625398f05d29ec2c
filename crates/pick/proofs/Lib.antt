mod ScanLaws
pub mod PickLaws
pub mod Examples
