pub mod Words
pub mod Numerals
pub mod Addresses
pub mod Laws
pub mod Loops
