-- The definitions that contracts cite.
pub mod Layout
pub mod Blocks
pub mod Strips
pub mod Header
pub mod Fields
pub mod Faults
pub mod Rules
pub mod Accepted
