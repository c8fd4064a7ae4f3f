pub mod Ifs
pub mod Cleared
pub mod PairIfs
pub mod Fresh
pub mod Stands
pub mod NoIf
pub mod Rows
