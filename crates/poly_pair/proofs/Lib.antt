pub mod CountLemmas
pub mod StoredLemmas
pub mod ListLemmas
mod EncodedSets
mod Multiples
mod StrongSystems
mod EncodedLists
pub mod OkLemmas
mod SimplifiedSystems
mod UniverseForms
mod PairLemmas
mod NeededDivisor
mod Starts
pub mod Additions
pub mod AddedPoints
mod SameSets
pub mod PointKinds
mod GeneratorRefusals
pub mod WorkLemmas
pub mod BothSystems
pub mod SpanningSystems
pub mod PairedSystems
mod ConeZeros
