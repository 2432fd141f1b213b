-- The bench cases' inputs and the paper's numbers.
pub mod Bench
pub mod Scenes
pub mod Corners
