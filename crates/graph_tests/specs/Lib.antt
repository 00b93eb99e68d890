pub mod Edits
pub mod Reliance
pub mod Trimming
