pub mod DistinctNames
mod ListingLemmas
pub mod TableLemmas
