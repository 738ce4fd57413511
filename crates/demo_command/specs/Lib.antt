pub mod Seen
pub mod Texts
pub mod Demo
pub mod Meaning
pub mod Lines
pub mod Working
