pub mod Numbering
pub mod Tables
pub mod Statements
pub mod Known
