pub mod Next
pub mod Emitting
pub mod Looping
pub mod Grouping
pub mod Whole
pub mod Counting
