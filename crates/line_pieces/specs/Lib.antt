pub mod Pieces
pub mod Pushed
