pub mod ByteLaws
pub mod FlatLaws
pub mod KeyLaws
pub mod KindLaws
pub mod LimitLaws
pub mod PlaceLaws
pub mod SlotLaws
