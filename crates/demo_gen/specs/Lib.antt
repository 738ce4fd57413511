pub mod Draws
pub mod Demo
pub mod Texts
pub mod Reading
pub mod Cases
pub mod Working
