pub mod CellLaws
pub mod FieldLaws
pub mod LineLaws
pub mod NumberLaws
pub mod Options
