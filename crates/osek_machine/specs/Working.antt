pub mod Stances
pub mod Changes
pub mod Tables
