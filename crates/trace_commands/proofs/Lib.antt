pub mod Honest
pub mod Headline
mod Saying
