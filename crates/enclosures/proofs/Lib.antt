pub mod RowValues
pub mod BoxLemmas
pub mod WayLemmas
pub mod JoinLemmas
