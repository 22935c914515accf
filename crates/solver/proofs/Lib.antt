pub mod Clearing
pub mod Ordering
pub mod Stepping
pub mod Turning
pub mod OneByOne
