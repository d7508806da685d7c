pub mod Maps
pub mod MappedLists
pub mod Sources
pub mod CarriedSystems
pub mod Refusals
pub mod TriedPairs
