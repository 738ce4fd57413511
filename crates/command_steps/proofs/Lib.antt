pub mod Pieces
pub mod Honest
pub mod Running
pub mod Given
pub mod Surely
