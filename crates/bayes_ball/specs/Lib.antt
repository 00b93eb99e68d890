pub mod Search
pub mod Flow
pub mod Spread
pub mod Finding
