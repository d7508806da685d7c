pub mod Functions
pub mod RankingRows
pub mod Rankings
pub mod Refusals
pub mod PrintedRankings
pub mod Runs
pub mod Laws
pub mod Commands
