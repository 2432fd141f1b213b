-- Laws of the colour transformation:
--     Limits        a float cut to a limit is within it
--     Quotients     a quotient by an alpha is a product with its reciprocal and a shift
--     Opaque        under the alpha 255 nothing is to be divided or multiplied
--     Bytes         a number within limits, or cut to 0..255; a pixel's bytes as one number
--     Laid          numbers laid out over 16 pixels, and rows made by them byte by byte
--     Promises      no channel above its alpha afterwards; what scales 1 and biases 0 do
pub mod Limits
pub mod Quotients
pub mod Opaque
pub mod Bytes
pub mod Laid
pub mod Promises
