pub mod Fold
pub mod Optimize
pub mod Table
