pub mod Limits
pub mod Total
pub mod Admitted
