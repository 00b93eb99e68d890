pub mod Finding
pub mod Lines
pub mod Alone
pub mod Shared
