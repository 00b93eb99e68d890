pub mod Printed
pub mod RoundTrip
pub mod Parts
pub mod NodeTexts
