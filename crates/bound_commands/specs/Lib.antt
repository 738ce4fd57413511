pub mod Check
pub mod Solving
pub mod All
pub mod Found
pub mod Bounded
pub mod Lines
