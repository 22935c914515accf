pub mod Boundary
pub mod Update
pub mod Values
