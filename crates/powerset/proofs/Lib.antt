pub mod CoverLemmas
pub mod ReductionLemmas
pub mod JoinLemmas
pub mod SameReductions
mod Climbs
mod ReducedPoints
mod PowersetPoints
mod CommandLemmas
