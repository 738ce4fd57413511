-- What only private clauses cite.
pub mod Judged
pub mod Found
pub mod Reached
pub mod Numbered
pub mod Answered
