pub mod SystemLemmas
pub mod RowLemmas
pub mod MultipleLemmas
pub mod SpanLemmas
