pub mod Fills
pub mod Digits
