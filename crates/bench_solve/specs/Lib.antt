pub mod RowsFile
