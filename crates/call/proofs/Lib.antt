pub mod Cases
pub mod Consequences
pub mod Demand
