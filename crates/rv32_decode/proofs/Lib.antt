pub mod WordFields
pub mod Immediates
pub mod Operations
pub mod TableLaws
pub mod Joined
