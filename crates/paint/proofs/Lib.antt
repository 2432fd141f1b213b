-- Laws of paint.
--
-- Gradients:
--     Sizes       signed numbers of which a size is known
--     Slope       dx² + dy², and rows with one t
--     Folded      t modulo 65,536, and spreads that leave t as it is
--     Quotients   floor division from one numerator to the next, and by a product and a shift
--     Walk        t from pixel to pixel of a row
--     Along       t along a row as a line in parts of 2^44
--
-- Radial gradients:
--     Lagrange    Q is A² + D (dx² + dy²)
--     Focal       so Q and t are not negative where the focal point is inside the circle; how large the numbers of t are
--     Outer       on and outside the circle t is at least 65,536; the pixels of a row that may lie inside
--     Differences A and Q from pixel to pixel of a row
--     Onward      what a loop over the pixels of a row keeps
--     Floating    which floats are numbers
--
-- Ramps:
--     Mix         a channel between two stops
--     Lines       a channel between two stops without a division
--     Pairs       the same of two stops at both ends, two channels as one number
--     Lookup      the search for the stops around t
--     Serving     segments have the ramp's colours
--     Placing     the colour at a position is the colour at t
--     Begins      pixels written as numbers in place of positions
--     Reals       floats read from bytes
--     Built       stops stored one after the other
--     Ends        which stops are kept, and the two ends
--
-- For callers:
--     Sound       what the stops of a ramp keep to, and a run of numbers that holds one
--     Under       no channel of a paint is above its alpha
--     Opaque      between opaque stops all is opaque
pub mod Sizes
pub mod Slope
pub mod Folded
pub mod Quotients
pub mod Walk
pub mod Along
pub mod Lagrange
pub mod Floating
pub mod Focal
pub mod Differences
pub mod Onward
pub mod Mix
pub mod Lines
pub mod Pairs
pub mod Reals
pub mod Lookup
pub mod Serving
pub mod Placing
pub mod Begins
pub mod Outer
pub mod Built
pub mod Ends
pub mod Sound
pub mod Under
pub mod Opaque
