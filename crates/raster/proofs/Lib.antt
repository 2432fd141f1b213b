-- Laws of pixels in bytes:
--     Pixels     what lists, runs and rasters hold at a pixel; lists with the same pixels are the same
--     Runs       pixels stored one after the other
--     Overlay    a rectangle of a surface, pixel by pixel
--     Rows       the same, a row after the other
--     Around     the same, but for a hole
pub mod Pixels
pub mod Runs
pub mod Overlay
pub mod Rows
pub mod Around
