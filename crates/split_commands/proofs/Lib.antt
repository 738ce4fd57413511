mod Bounds
mod Searched
pub mod Headline
pub mod Honest
