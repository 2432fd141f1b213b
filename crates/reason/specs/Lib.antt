-- The definitions that contracts cite.
pub mod Explanations
pub mod Lines
pub mod Summed
