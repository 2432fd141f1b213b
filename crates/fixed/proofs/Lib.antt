-- Laws of whole numbers and of floats, for every crate.
--
-- Whole numbers:
--     Within     bounds on the size of an integer
--     Means      what an expression of signed locals means, and that no step overflows
--     Poly       equations and orders of integers for `omega`
--     Sign       what a test of a sign tells
--     Signed     tests of numbers that signed locals hold
--     Tests      a test that computes, and the order that it decides
--     Upto       a rule of the numbers below n, by one computed test
--     Round      floor division
--     Twos       two's complement
--     Roots      the square root is what it is said to be, and no other number is; a step of Newton's ends at or above it
--
-- Floats:
--     Nearest    a fraction rounded to the nearest whole number
--     Patterns   the value and the size of a bit pattern
--     Nans       what a comparison of a float with itself tells
--     Scaled     the size of a scaled float
--     Offsets    what a comparison of a float with 0 tells
--     Answers    what an answer of this crate tells its caller
pub mod Within
pub mod Means
pub mod Poly
pub mod Sign
pub mod Signed
pub mod Tests
pub mod Upto
pub mod Round
pub mod Twos
pub mod Roots
pub mod Nearest
pub mod Patterns
pub mod Nans
pub mod Scaled
pub mod Offsets
pub mod Answers
