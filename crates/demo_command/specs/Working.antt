-- What only private clauses cite.
pub mod Seeing
pub mod Ready
