pub mod AllOf
pub mod Calls
pub mod ClosureSteps
pub mod Composing
pub mod Listings
pub mod MappedLists
pub mod PlantCounts
pub mod TaskLists
