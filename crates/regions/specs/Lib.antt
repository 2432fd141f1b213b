-- The definitions that contracts cite.
pub mod Pixels
pub mod Proposals
pub mod Answers
pub mod Planned
pub mod Runs
