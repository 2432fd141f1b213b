-- The definitions that contracts cite.
pub mod Floor
pub mod Little
pub mod Floats
pub mod Patterns
pub mod Roots
