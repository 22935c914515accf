pub mod Checking
pub mod Keeping
pub mod Nothing
pub mod Updating
