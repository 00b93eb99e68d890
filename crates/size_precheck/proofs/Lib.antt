pub mod Counting
pub mod Somewhere
pub mod Live
pub mod Scoped
pub mod Lists
pub mod Stepping
pub mod Running
pub mod Starting
pub mod Putting
pub mod Walking
pub mod Placed
pub mod Planning
pub mod Orders
pub mod Measuring
pub mod Kept
mod Agreeing
mod Dividing
mod Above
pub mod Joining
pub mod Classing
mod Near
mod Ordering
