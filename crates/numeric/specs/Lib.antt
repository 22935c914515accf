pub mod Bits
pub mod Round
pub mod Root
pub mod Scalar
pub mod Axes
pub mod Kernel
pub mod Meaning
pub mod Values
