pub mod Table
pub mod Worked
pub mod Judged
pub mod Drawn
pub mod Corners
