pub mod Lines
pub mod ListingBack
pub mod Numbers
pub mod Shown
pub mod Split
pub mod RoomLaws
