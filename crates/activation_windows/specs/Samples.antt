pub mod Words
pub mod Preempted
pub mod Interrupted
pub mod Scheduled
pub mod Called
pub mod Once
pub mod TwoModes
pub mod Locked
