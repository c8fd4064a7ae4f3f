pub mod Passes
pub mod WellDeclared
pub mod Optimized
pub mod Worklist
