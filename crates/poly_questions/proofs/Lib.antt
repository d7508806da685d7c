mod LatticeLemmas
mod LatticeOnce
mod OptimaLemmas
mod OptimaOnce
mod PointLemmas
mod PointOnce
mod QuestionsOnce
pub mod SaysOnce
