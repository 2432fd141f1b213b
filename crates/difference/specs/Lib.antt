-- The definitions that contracts cite.
pub mod Compare
pub mod Rows
