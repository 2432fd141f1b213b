-- The definitions that contracts cite.
pub mod Transforms
pub mod Reciprocals
pub mod Bytewise
