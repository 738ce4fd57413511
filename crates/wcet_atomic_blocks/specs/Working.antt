pub mod Rooted
pub mod Search
pub mod Tables
pub mod Wanted
