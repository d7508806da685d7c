pub mod PointValues
pub mod Inclusions
pub mod ShapePoints
pub mod DifferenceRows
pub mod SupremaLemmas
pub mod RowLists
pub mod FormLemmas
pub mod GivenRows
pub mod FormOnce
pub mod GivenTables
pub mod GivenPoints
pub mod Canonical
mod CommandLemmas
