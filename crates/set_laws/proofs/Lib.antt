pub mod ListedVectors
pub mod Directions
pub mod JoinedLists
pub mod SpanValues
pub mod Members
pub mod Counters
pub mod GeneratorLaws
pub mod PairedMembers
