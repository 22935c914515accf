pub mod Answers
pub mod Steps
pub mod Lengths
pub mod Settings
pub mod Changing
pub mod Emptying
pub mod Passing
