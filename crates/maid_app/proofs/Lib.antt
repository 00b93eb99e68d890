pub mod Ends
pub mod Generated
pub mod HandedOn
pub mod Judging
pub mod Leading
pub mod Outcomes
pub mod Steps
