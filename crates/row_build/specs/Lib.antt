pub mod Columns
pub mod Families
pub mod Rows
pub mod Links
pub mod Working
