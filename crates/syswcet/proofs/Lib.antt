pub mod Ranges
pub mod Numbers
pub mod Commands
pub mod Headline
