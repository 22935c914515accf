pub mod Order
pub mod Step
pub mod Calls
pub mod Clearing
pub mod OneByOne
pub mod Values
