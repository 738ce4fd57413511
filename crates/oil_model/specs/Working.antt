-- What only the crate's private clauses cite.
pub mod Taken
