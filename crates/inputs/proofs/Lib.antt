pub mod Halts
pub mod Honest
pub mod Given
pub mod Declared
pub mod TaskNames
pub mod Analysing
