pub mod Cells
pub mod Lookup
pub mod Stencil
pub mod Values
