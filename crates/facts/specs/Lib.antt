pub mod Sums
pub mod Proper
pub mod Sound
pub mod Loads
pub mod Each
pub mod DifferentCases
