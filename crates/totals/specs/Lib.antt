pub mod Lone
pub mod Linear
pub mod Ranges
