pub mod ExecutionLaws
pub mod MemoryLaws
pub mod LoadLaws
pub mod StepLaws
