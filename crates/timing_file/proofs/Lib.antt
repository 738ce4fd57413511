pub mod Bounds
pub mod Forms
pub mod Numbers
pub mod Names
pub mod Lists
pub mod Costing
pub mod Checks
