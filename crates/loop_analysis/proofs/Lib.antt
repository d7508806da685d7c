pub mod RunLemmas
pub mod AnalysisLemmas
pub mod TurnLemmas
