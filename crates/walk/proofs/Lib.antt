pub mod DecodeExact
pub mod Grow
pub mod Implements
pub mod Ints
pub mod Num
pub mod NumberingSteps
pub mod Steps
pub mod Texts
