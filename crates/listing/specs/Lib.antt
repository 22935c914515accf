-- What the contracts of `src/` cite.
pub mod Bench
pub mod Feeding
pub mod Held
pub mod Lines
pub mod Listing
pub mod Steps
pub mod Values
