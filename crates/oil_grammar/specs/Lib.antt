pub mod Bytes
pub mod Tokens
pub mod Grammar
pub mod Faults
pub mod Kinds
pub mod Layout
pub mod Names
pub mod Working
