pub mod Branches
pub mod Verdicts
