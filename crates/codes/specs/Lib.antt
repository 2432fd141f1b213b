-- The definitions that contracts cite.
pub mod Codes
pub mod First
pub mod Number
