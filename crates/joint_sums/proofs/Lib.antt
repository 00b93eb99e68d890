pub mod ScopeNodes
pub mod Pairs
pub mod Gains
pub mod Orders
pub mod Sized
pub mod Scopes
pub mod PlanSteps
pub mod KindSums
