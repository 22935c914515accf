pub mod Fluids
pub mod Values
