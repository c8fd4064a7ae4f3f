pub mod Meaning
pub mod Taken
