pub mod Sheet
pub mod Cases
pub mod Writes
pub mod Placing
pub mod Widths
