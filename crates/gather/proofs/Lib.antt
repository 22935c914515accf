pub mod Columns
pub mod Gathering
pub mod Ranging
pub mod Checking
