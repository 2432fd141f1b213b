pub mod Boxes
pub mod Changes
pub mod Members
pub mod Smallest
pub mod Redraw
