pub mod Refusals
pub mod Verdicts
pub mod Solved
pub mod Oil
pub mod Code
pub mod Played
