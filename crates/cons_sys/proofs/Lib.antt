pub mod Signs
pub mod SystemLemmas
pub mod RowLemmas
pub mod AnswerLemmas
