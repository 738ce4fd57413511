mod Worked
pub mod Placing
pub mod Keeping
pub mod Kept
pub mod Times
pub mod Calendar
pub mod Machines
pub mod Changed
pub mod Starting
pub mod Tables
pub mod Made
