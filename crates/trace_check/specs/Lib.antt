pub mod Kinds
pub mod Trace
pub mod Form
pub mod Text
pub mod Verdict
pub mod Cases
pub mod Working
