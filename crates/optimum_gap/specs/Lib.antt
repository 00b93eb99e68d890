pub mod Fractions
pub mod Baselines
pub mod Found
pub mod Laws
