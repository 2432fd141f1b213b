-- The definitions that contracts cite. A reviewer of the paper need not read them.
pub mod Asked
pub mod Alike
pub mod Corners
pub mod Every
pub mod Around
pub mod Frames
