-- Laws of paths. Others may cite:
--     Entries   a matrix within its limits has small entries
--     Codes     the code of a segment, and what an accepted segment has
--     Faults    the first fault of a path, and what a path without one has
--     Untraced  plain segments under a small matrix are accepted
-- For this crate alone:
--     Axes      one axis of a point: mirrored, with a coordinate added, transformed
--     Traces    the points of a segment and the pen after it, by its kind
pub mod Entries
pub mod Codes
pub mod Faults
pub mod Untraced
mod Axes
mod Traces
