pub mod Codes
pub mod Laws
pub mod SetLaws
pub mod Steps
