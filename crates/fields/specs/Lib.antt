-- What the contracts of `src/` cite.
pub mod Examples
pub mod Read
pub mod Write
