pub mod Every
pub mod Ranges
pub mod Accepting
pub mod Staging
pub mod Placing
pub mod Blocking
pub mod Passing
pub mod OnAxes
