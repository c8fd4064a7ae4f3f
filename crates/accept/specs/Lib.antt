pub mod Limit
pub mod Walk
pub mod Accepted
pub mod Taken
