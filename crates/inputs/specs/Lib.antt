pub mod Meaning
pub mod Inputs
pub mod Plants
pub mod Subjects
pub mod States
pub mod Schedules
