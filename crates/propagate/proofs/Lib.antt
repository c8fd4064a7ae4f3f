pub mod Statuses
pub mod PassLaws
pub mod WorklistLaws
