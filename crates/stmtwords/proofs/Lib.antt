pub mod Clearing
pub mod Words
pub mod Ends
