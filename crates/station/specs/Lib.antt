pub mod Small
pub mod Returned
pub mod Joined
pub mod Rosters
pub mod Sheets
