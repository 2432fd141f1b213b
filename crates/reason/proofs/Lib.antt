pub mod Single
pub mod First
pub mod Summed
pub mod Held
pub mod Refusals
pub mod Drawn
pub mod Chain
