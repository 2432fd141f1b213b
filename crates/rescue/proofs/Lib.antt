-- Laws of salvaging:
--     Chunks     lists of equal parts, joined and taken apart
--     Verdicts   judgements: rules in their order, what accepts, and a refusal's number
--     Codes      the code of a scene's front; a draw whose blocks have their checks
--     Listed     the list of replaced draws
--     Empty      the empty draw
--     Parts      the parts of a salvaged scene, what passes, and what a call leaves
--     Sealed     blocks with fresh checks
--     Spans      the four blocks of a draw, and that the draw's verdict is theirs
--     Assembled  a scene put together anew, with fresh checks
--     Promises   what salvaging promises
pub mod Chunks
mod Verdicts
pub mod Codes
mod Listed
mod Empty
pub mod Parts
pub mod Sealed
pub mod Spans
pub mod Assembled
pub mod Promises
