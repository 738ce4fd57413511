pub mod Tree
pub mod Sides
pub mod Good
pub mod Lawful
pub mod Laws
pub mod Working
