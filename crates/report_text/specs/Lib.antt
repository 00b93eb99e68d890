pub mod Reading
pub mod Slots
pub mod Laws
pub mod Runs
pub mod Pushing
