-- Laws of the definitions in `specs/`, which the functions' proofs cite.
pub mod Back
pub mod Forth
pub mod Moving
pub mod Reading
pub mod Writing
