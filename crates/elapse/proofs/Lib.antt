pub mod Levelled
pub mod DirectionLists
pub mod DirectionValues
pub mod MovedValues
pub mod ElapseLaws
pub mod ElapsedSets
pub mod ElapsedPolyhedra
