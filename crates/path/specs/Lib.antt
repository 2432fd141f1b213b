-- The definitions that contracts cite.
pub mod Matrices
pub mod Segments
pub mod Curves
pub mod Boxes
pub mod Stored
pub mod Closed
pub mod Limits
pub mod Answers
pub mod Plain
