pub mod WordLemmas
pub mod BlockLemmas
pub mod PlaceLemmas
pub mod CountLemmas
pub mod CellLemmas
pub mod RowSearches
