pub mod Transfer
pub mod Gather
pub mod Values
