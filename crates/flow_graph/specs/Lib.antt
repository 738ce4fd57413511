pub mod Kinds
pub mod Graph
pub mod Faults
pub mod Standing
pub mod Walks
pub mod Judging
pub mod Cases
pub mod Working
