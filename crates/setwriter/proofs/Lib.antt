pub mod Places
pub mod One
pub mod Mapped
pub mod ByMaps
pub mod Renumbered
pub mod Again
pub mod Begin
