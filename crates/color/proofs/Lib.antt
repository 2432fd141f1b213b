-- Laws of channels and bytes:
--     RoundTrip   a byte as a channel reads back
--     Alpha       premultiplied bytes: they fit, and are at most their alpha
--     Quotient    division by 255 with sums and shifts
pub mod RoundTrip
pub mod Alpha
pub mod Quotient
