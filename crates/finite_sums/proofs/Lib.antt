pub mod Ints
pub mod Sums
pub mod Totals
pub mod Lists
pub mod Members
pub mod Counts
pub mod Sights
pub mod Ranges
