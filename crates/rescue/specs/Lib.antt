-- The definitions that contracts cite.
pub mod Fresh
pub mod Salvaged
