pub mod Coding
pub mod Judging
pub mod View
