pub mod Bytes
pub mod Pages
pub mod Comparisons
pub mod Clauses
