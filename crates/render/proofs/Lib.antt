pub mod Refusals
pub mod Results
pub mod Demands
pub mod Faulty
pub mod Draws
pub mod Codes
