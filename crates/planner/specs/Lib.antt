-- The definitions that contracts cite.
pub mod Runs
pub mod Cuts
pub mod Tilings
pub mod Written
pub mod Plannings
