pub mod Spreading
pub mod Turning
pub mod Walking
pub mod Searching
pub mod FromGoals
pub mod Finding
