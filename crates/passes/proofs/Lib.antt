pub mod SkipLaws
pub mod PropLaws
pub mod StmtLaws
pub mod PropStmtLaws
