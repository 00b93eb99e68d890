pub mod Faults
pub mod Updated
pub mod Laws
pub mod Steps
pub mod Kept
