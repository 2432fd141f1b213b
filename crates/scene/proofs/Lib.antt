-- Laws of the scene file:
--     Sums       a sum that begins at a start value; sums of strips side by side
--     Copies     bytes copied in order
--     Same       lists whose first bytes are the same
--     First      the first fault of several
--     Sizes      rules on floats, by their bit patterns
--     Paths      the rules of a path, from the walk over it
--     Accepted   what a scene and a draw have that the rules accept
--     Verdicts   the verdict, by how far the rules are kept
--     Places     a block passes at one number only
mod Sums
pub mod Copies
mod Same
mod First
mod Sizes
mod Paths
pub mod Accepted
pub mod Verdicts
pub mod Places
