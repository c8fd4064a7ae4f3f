pub mod ReadSheet
pub mod Sheeted
