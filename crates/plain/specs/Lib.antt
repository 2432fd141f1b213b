-- The definitions that contracts cite.
pub mod Asked
pub mod Both
