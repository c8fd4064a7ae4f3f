pub mod Beyond
pub mod Carried
pub mod Declared
pub mod ReadBack
pub mod Records
pub mod Start
