pub mod Windows
pub mod Counted
pub mod Cases
pub mod ShadowCases
pub mod Bounds
pub mod Samples
pub mod Worked
