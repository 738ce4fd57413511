pub mod Shadow
pub mod Covering
pub mod Cases
