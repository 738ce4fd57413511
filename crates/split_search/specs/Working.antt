pub mod Flags
pub mod Moves
