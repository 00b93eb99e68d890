pub mod Deciding
pub mod Told
pub mod Walked
pub mod Restoring
