pub mod ActLaws
pub mod MemoryLaws
