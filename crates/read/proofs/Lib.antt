pub mod Cases
pub mod Exact
pub mod ExactExpr
pub mod Vars
