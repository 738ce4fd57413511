pub mod Called
pub mod Listing
pub mod Opened
pub mod Ranks
