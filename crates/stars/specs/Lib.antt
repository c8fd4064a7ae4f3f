pub mod Lines
pub mod Stars
