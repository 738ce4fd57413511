-- What only the crate's private clauses cite.
pub mod Gaps
pub mod Reading
pub mod States
pub mod Advancing
pub mod Firsts
