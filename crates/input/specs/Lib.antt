pub mod ReadText
pub mod Room
pub mod Input
pub mod Cases
