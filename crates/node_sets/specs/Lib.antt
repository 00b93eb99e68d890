pub mod Sets
pub mod Arcs
pub mod Paths
pub mod Steps
