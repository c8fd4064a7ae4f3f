pub mod IntLaws
pub mod BoolLaws
pub mod TableLaws
pub mod ValueLaws
pub mod StmtLaws
pub mod SetLaws
