pub mod Digits
pub mod Sizes
pub mod Words
pub mod Lines
