pub mod Cutting
pub mod Requisites
pub mod Detours
pub mod Unseen
pub mod Filters
pub mod Losing
pub mod Looking
pub mod Trims
