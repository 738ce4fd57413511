pub mod Decimals
pub mod Forms
pub mod Laws
pub mod Newlines
pub mod Parts
pub mod Written
