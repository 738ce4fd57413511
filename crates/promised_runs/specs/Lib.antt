pub mod Promised
pub mod Apart
