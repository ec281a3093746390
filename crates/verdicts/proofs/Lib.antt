pub mod RowVerdicts
pub mod ColumnVerdicts
