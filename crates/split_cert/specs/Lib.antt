pub mod Good
pub mod Lawful
pub mod Form
pub mod Certificate
pub mod Writing
pub mod Laws
pub mod Working
