pub mod Answers
pub mod Nodes
pub mod Table
pub mod Clear
pub mod Values
