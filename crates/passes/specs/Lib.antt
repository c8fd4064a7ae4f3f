pub mod Want
pub mod Skip
pub mod Contract
pub mod Statements
