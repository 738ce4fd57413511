pub mod Form
pub mod Parts
pub mod States
pub mod Certificate
pub mod Lawful
pub mod Kinds
pub mod Writing
