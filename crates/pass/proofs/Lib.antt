pub mod ByteLaws
pub mod NumberLaws
pub mod StayLaws
pub mod PassLaws
pub mod KeepLaws
