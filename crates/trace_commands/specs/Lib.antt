pub mod Texts
pub mod Record
pub mod Judge
pub mod Meaning
pub mod Laws
