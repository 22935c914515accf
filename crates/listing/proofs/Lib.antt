-- The laws that belong to no function of `src/`.
pub mod Calling
pub mod Keeping
pub mod Paging
pub mod Printing
pub mod Scanning
pub mod Spelling
pub mod Taking
pub mod Texts
pub mod Whole
