pub mod PairValues
pub mod RankingSets
pub mod RowLemmas
pub mod RankingLists
pub mod RankingPolyhedra
pub mod PrintedFunctions
pub mod RankedRuns
mod CommandLemmas
