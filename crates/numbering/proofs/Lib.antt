pub mod Stores
pub mod Words
pub mod Results
pub mod Branches
pub mod Bounds
