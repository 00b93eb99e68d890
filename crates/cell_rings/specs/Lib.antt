pub mod Rings
pub mod RingLaws
pub mod Sums
pub mod Kinds
pub mod KindLaws
pub mod Words
