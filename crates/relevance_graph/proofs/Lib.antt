pub mod Listing
pub mod Outcomes
pub mod Standing
pub mod Marking
pub mod InControl
