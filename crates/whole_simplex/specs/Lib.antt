pub mod Tables
pub mod Outcome
pub mod Answers
pub mod Faults
pub mod Places
pub mod Sizes
pub mod Narrow
pub mod Divisors
