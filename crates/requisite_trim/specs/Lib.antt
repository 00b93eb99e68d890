pub mod Trims
pub mod Steps
pub mod Needs
