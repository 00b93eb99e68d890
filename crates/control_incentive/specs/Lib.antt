pub mod Paths
pub mod Lines
pub mod Steps
