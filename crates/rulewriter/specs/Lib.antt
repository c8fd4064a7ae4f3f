pub mod Domains
pub mod Places
pub mod Making
pub mod Ties
pub mod Pair
pub mod Rules
