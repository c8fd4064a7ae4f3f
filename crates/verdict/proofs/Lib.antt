pub mod Cases
pub mod RosterLaws
