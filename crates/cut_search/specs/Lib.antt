pub mod Nodes
pub mod Leaves
pub mod Search
pub mod Answers
pub mod Working
