pub mod Views
pub mod Relevant
pub mod Steps
pub mod Kept
