pub mod Choices
pub mod Demo
pub mod Places
pub mod Removed
pub mod Pushing
