pub mod Kept
pub mod Ends
pub mod Leading
pub mod HandedOn
pub mod Items
pub mod Rows
pub mod Repeats
