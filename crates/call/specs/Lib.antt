pub mod Call
pub mod Claim
pub mod Compute
pub mod WellRead
pub mod Known
