pub mod LoopLines
pub mod Answering
pub mod Honest
pub mod Headline
