pub mod Beside
pub mod Bounding
pub mod Found
pub mod Heights
pub mod Missing
pub mod Scanning
pub mod Terms
