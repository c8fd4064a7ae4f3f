pub mod Refusal
pub mod Parse
pub mod Exact
pub mod Cursor
