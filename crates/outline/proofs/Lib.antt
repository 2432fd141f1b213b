-- Laws of outlines. Callers of this crate need the first seven and Outermost; the others serve its own functions.
--     Flattened   what `flatten` leaves
--     Returns     a path's edges come back to where they began
--     Counts      how many edges a curve and a path have
--     Sizes       the points and the edges of an accepted path are small
--     Stores      edges stored in a run of numbers
--     Every       what holds of every element of a list
--     Walked      one segment more
--     Bezier      cut points of a curve, over its degree
--     Outermost   the outer end of edges, and their box
--     Merged      one edge in place of many, the box the same
--     Around      edges and curves in a box, and the pixels of the box
--     Frames      the box of a path's coordinates, taken as x and y in turn
pub mod Flattened
pub mod Returns
pub mod Counts
pub mod Sizes
pub mod Stores
pub mod Every
pub mod Walked
mod Bezier
pub mod Outermost
mod Merged
mod Around
mod Frames
