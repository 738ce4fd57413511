pub mod Takes
pub mod Found
pub mod Working
