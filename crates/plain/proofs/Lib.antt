-- The laws that proofs cite.
pub mod Counted
pub mod Wound
pub mod Cut
pub mod Pixelwise
pub mod Same
