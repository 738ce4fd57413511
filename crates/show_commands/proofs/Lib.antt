pub mod Lines
pub mod Honest
pub mod Headline
