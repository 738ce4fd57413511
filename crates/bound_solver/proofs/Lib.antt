pub mod LiftedAnswers
pub mod Limits
pub mod TaskBounds
