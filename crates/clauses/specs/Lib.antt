pub mod Clause
pub mod Log
pub mod Disjunction
pub mod Normalize
pub mod Split
pub mod Valuation
pub mod Merge
