mod Worked
pub mod Changes
pub mod Ranks
pub mod First
pub mod Runs
pub mod Outcomes
pub mod Serves
pub mod Theorems
