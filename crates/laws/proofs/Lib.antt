pub mod Rows
pub mod Records
pub mod Hits
pub mod Orders
pub mod Refusals
pub mod Instances
