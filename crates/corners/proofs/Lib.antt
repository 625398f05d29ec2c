pub mod AlikeLaws
pub mod ByteLaws
pub mod TookLaws
pub mod GatherLaws
pub mod FieldLaws
pub mod HeightLaws
pub mod ValidLaws
pub mod RSLaws
