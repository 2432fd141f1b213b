pub mod Refusals
pub mod Picked
pub mod Greatest
pub mod Boxes
pub mod Turns
pub mod Exchanged
pub mod Promises
