pub mod Table
pub mod Laps
pub mod Arrivals
pub mod Follows
pub mod Moves
pub mod Serving
pub mod Turns
pub mod Rounds
