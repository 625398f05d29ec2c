pub mod FieldLaws
pub mod ScanLaws
