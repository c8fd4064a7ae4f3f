pub mod Leaves
pub mod Literals
