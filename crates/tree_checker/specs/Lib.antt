pub mod AgentSums
pub mod Verdicts
pub mod Walks
pub mod Settings
pub mod Sound
pub mod Laws
pub mod Judged
