-- The definitions that contracts cite.
pub mod Gradient
pub mod Radial
pub mod Ramps
pub mod Paints
pub mod Buffers
pub mod Circles
pub mod Opaque
pub mod Segments
