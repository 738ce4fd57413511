pub mod ShowOil
pub mod ShowCode
pub mod Replay
pub mod Shown
