pub mod Particles
pub mod Table
pub mod Places
pub mod Blocks
pub mod Values
