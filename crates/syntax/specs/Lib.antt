pub mod Words
pub mod Syntax
pub mod Satisfies
pub mod Written
pub mod Depth
pub mod Unique
pub mod Lengths
pub mod Codes
