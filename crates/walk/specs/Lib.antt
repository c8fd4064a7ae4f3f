pub mod Item
pub mod Decode
