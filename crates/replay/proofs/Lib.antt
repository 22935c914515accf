-- The laws that belong to no function of `src/`.
pub mod Feed
