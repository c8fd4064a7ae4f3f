pub mod Read
pub mod WellFormed
