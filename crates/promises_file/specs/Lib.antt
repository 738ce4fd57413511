pub mod Kinds
pub mod Latencies
pub mod Promises
