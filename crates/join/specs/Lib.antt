pub mod Join
pub mod Joined
pub mod Found
pub mod Steps
pub mod Contract
pub mod Cases
