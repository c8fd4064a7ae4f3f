pub mod Signed
pub mod DomainLaws
pub mod IntLaws
pub mod BoolLaws
pub mod IfLaws
