-- Laws of blending:
--     Channel     the arithmetic of one channel
--     Shortcuts   where the step on a pixel needs less of it
--     Bytes       rows made byte by byte
--     Spans       pixels that are covered alike
--     Masks       the step under a mask, and that a whole one is none
--     Under       no channel above its alpha, and what is read clamped
pub mod Channel
pub mod Shortcuts
pub mod Bytes
pub mod Spans
pub mod Masks
pub mod Under
