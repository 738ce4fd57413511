pub mod Headline
pub mod Words
pub mod Commands
