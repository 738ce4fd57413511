pub mod Kinds
pub mod Image
pub mod Flat
pub mod Elf
pub mod Working
pub mod Plain
