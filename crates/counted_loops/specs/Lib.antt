pub mod Words
pub mod Rounds
pub mod Counted
pub mod Found
pub mod Laws
pub mod Bounds
pub mod Working
