pub mod Store
pub mod Hits
pub mod Orders
pub mod Refusals
