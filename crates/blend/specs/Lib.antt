-- The definitions that contracts cite.
pub mod PorterDuff
pub mod Unmasked
pub mod Rows
pub mod Spans
