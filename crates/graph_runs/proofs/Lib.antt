pub mod Positions
pub mod Entries
pub mod Ending
pub mod Walking
