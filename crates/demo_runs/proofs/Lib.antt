pub mod Reached
pub mod Counting
pub mod Arriving
pub mod Instructions
pub mod Newest
pub mod Unbroken
pub mod Scheduled
