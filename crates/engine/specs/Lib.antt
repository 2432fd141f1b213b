-- The definitions that contracts cite.
pub mod Picture
pub mod Unclamped
pub mod Rows
pub mod Spans
pub mod Background
pub mod Props
