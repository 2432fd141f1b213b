-- Laws of the order of draws:
--     Turns      steps one after the other: two neighbours exchanged, and any rearrangement
--     Pixels     the draws of a scene at a pixel: two whose boxes do not both hold it do the same in either order
--     Promises   what an exchange and a rearrangement promise
pub mod Turns
pub mod Pixels
pub mod Promises
