pub mod Sums
pub mod Looks
pub mod Members
pub mod Laws
pub mod Sights
