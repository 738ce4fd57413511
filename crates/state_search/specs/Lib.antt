pub mod Reached
pub mod Least
pub mod Searching
pub mod Working
