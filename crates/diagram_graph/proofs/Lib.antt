pub mod Placings
pub mod Trails
pub mod Rings
pub mod Orders
pub mod OneCycle
pub mod Covering
pub mod Filters
pub mod Reparented
pub mod Losing
pub mod RuleCells
pub mod MoreArcs
pub mod Deciding
pub mod Fixing
pub mod Kept
pub mod Undoing
mod Members
