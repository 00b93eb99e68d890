pub mod Denominators
pub mod Counting
pub mod Edits
pub mod Optima
