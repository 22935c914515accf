pub mod Walking
pub mod Ending
pub mod Finite
pub mod Driving
pub mod Laws
