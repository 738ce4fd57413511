pub mod Bounding
pub mod Branches
pub mod Limits
pub mod OneVerdict
pub mod Parts
pub mod Written
