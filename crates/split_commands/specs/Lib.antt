pub mod Texts
pub mod SplitFiles
pub mod Check
pub mod Find
pub mod Working
