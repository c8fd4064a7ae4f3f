pub mod Same
pub mod Columns
pub mod Describing
pub mod Step
