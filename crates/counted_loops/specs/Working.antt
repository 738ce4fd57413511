pub mod Distances
pub mod Writers
pub mod Counting
pub mod Entering
