pub mod Composed
pub mod Moves
pub mod Closed
pub mod Working
