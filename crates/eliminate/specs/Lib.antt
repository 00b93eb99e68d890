pub mod Results
pub mod Steps
pub mod Limits
pub mod Laws
pub mod Places
