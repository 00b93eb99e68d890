pub mod Bits
pub mod Growing
pub mod Joining
pub mod Words
pub mod Turning
pub mod Following
pub mod Scanning
pub mod Parting
