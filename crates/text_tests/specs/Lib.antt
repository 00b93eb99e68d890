pub mod Numbers
pub mod Samples
