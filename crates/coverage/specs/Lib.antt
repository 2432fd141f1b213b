-- The definitions that contracts cite.
pub mod Winding
pub mod Scissors
pub mod Clips
pub mod Scanline
pub mod Marks
pub mod Band
pub mod Covers
pub mod Between
