pub mod Parts
pub mod Names
pub mod Arrived
pub mod Tables
pub mod Following
pub mod Words
