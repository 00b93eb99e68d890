mod PlanSamples
pub mod Samples
pub mod SmallTables
