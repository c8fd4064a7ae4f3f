pub mod Cases
pub mod Count
pub mod Light
pub mod TotalLaws
