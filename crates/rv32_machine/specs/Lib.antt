pub mod Registers
pub mod Execution
pub mod Memory
pub mod Code
pub mod Places
pub mod Steps
pub mod ContextStep
pub mod Working
