pub mod Bytes
pub mod Decimal
pub mod Puts
pub mod Numbers
pub mod Widths
