pub mod Faults
pub mod Found
pub mod Games
pub mod Following
