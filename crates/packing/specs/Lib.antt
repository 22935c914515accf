pub mod Mask
pub mod Ids
pub mod Neighbours
pub mod Laws
pub mod Values
