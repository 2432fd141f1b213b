-- The definitions that contracts cite.
pub mod Replay
pub mod Carrying
