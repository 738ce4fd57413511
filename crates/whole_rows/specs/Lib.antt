pub mod Row
pub mod Terms
pub mod Rows
pub mod Duals
pub mod Greatest
pub mod Columns
pub mod Working
