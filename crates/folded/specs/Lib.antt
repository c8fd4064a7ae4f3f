pub mod Folded
pub mod Branches
