pub mod Lacking
pub mod Summed
pub mod Asked
pub mod Kept
pub mod Agents
pub mod Shares
