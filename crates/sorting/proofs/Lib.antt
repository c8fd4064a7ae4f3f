pub mod Sorting
pub mod Dropping
