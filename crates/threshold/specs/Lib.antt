pub mod Faults
pub mod Intervals
pub mod Weights
pub mod Held
pub mod Ends
pub mod Control
pub mod Answers
