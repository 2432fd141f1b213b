-- Laws of a replay:
--     Runs       starts and parts of a run, answers as numbers
--     Turns      one scene more
--     Whole      when the whole call is refused, what it leaves, and what it notes
--     Pictures   what surface and scratch hold afterwards
mod Runs
mod Turns
pub mod Whole
pub mod Pictures
