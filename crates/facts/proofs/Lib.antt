pub mod Cases
pub mod Loaded
pub mod SumsLaws
