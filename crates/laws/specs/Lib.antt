pub mod Bools
pub mod Ints
pub mod Lists
pub mod Slices
pub mod Writes
pub mod Order
pub mod Same
pub mod Signed
