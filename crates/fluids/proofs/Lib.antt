pub mod Recomputing
