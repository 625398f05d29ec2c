pub mod Store
pub mod Proper
