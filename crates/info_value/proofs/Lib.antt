pub mod Ranges
pub mod Sights
pub mod Added
pub mod Asked
pub mod Told
