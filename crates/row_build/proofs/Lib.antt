pub mod ColumnLists
pub mod Counts
pub mod Dense
pub mod Growing
pub mod LinkLists
pub mod PlantParts
pub mod SeenColumns
pub mod States
