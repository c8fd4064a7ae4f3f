pub mod DomainTable
pub mod InSet
