pub mod Example
pub mod Planning
pub mod Trials
