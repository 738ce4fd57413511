pub mod Status
pub mod Refusals
pub mod Steps
pub mod Reports
pub mod Outside
pub mod Running
