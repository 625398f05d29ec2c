pub mod WithinLaws
pub mod SideLaws
pub mod ScanLaws
pub mod Examples
pub mod LentLaws
