pub mod PlainStmt
pub mod MeetVars
pub mod Once
pub mod Numbered
pub mod KnownTie
pub mod OneStatement
pub mod Begins
