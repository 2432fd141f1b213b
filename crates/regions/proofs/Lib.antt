-- Laws of proposals.
--     Every      tests of every number, of every pixel of a rectangle, of each of a list
--     Between    a rule that ends only where a rectangle does
--     Lying      a proposal's numbers
--     Verdicts   the verdict on a proposal, by how far the rules are kept
--     Accepted   accepted exactly if
--     Overlays   several rectangles on a surface
--     Turns      one rectangle more
--     Painted    rectangles that cover the changes are enough
--     Results    what a call leaves
--     Demands    the promises as theorems
--     Plans      the same of a planner's proposal
pub mod Every
pub mod Between
pub mod Lying
pub mod Verdicts
pub mod Accepted
pub mod Overlays
pub mod Turns
pub mod Painted
pub mod Results
pub mod Demands
pub mod Plans
