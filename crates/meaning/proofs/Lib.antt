pub mod FormLaws
pub mod EdgeLaws
pub mod StateLaws
pub mod OpenLaws
pub mod ValueLaws
pub mod CloseLaws
pub mod Examples
