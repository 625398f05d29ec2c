pub mod PutLaws
pub mod Examples
pub mod DecimalLaws
