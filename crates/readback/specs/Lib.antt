pub mod ReadListing
pub mod Listed
pub mod Room
