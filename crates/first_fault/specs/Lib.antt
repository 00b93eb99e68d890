pub mod Passes
pub mod Outcomes
pub mod Answers
pub mod Properties
pub mod Tables
