pub mod Exchanged
mod ProductSteps
mod Listed
mod Grown
mod SmallSums
mod FractionTold
mod OrderSteps
mod BaseSteps
mod PartRules
mod RowClash
mod ScopeParts
mod RowTransfer
mod LineLaws
mod OneVerdictLaw
mod FirstLines
mod AgentParts
mod SoundLaws
pub mod Walking
pub mod WalkTables
pub mod WalkSteps
pub mod WalkTails
pub mod WalkEndings
pub mod WalkOpened
pub mod WalkOrders
pub mod WalkTotals
pub mod WalkCells
pub mod StepLaws
pub mod WalkPlaces
pub mod WalkLasts
pub mod WalkPairs
pub mod LastSplit
