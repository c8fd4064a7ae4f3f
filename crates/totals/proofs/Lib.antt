pub mod Numbers
pub mod Steps
pub mod Looks
pub mod Adding
