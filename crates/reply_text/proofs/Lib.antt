pub mod JoinLemmas
pub mod DigitLemmas
