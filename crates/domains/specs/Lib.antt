pub mod Declared
pub mod Kinds
