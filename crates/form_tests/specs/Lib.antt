pub mod Checking
pub mod Conditioning
pub mod Controlling
pub mod Informing
pub mod Moving
pub mod Searching
pub mod Updating
