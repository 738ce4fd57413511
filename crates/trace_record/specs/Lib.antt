pub mod Recording
pub mod Recorded
pub mod Fitting
pub mod Cases
pub mod Working
