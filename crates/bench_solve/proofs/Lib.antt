pub mod RowLemmas
pub mod TermLemmas
