pub mod RosterText
pub mod Cases
pub mod Contract
