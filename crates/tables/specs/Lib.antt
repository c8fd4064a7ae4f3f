pub mod Tables
pub mod Domains
pub mod Values
