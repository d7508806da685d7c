pub mod Powersets
pub mod Covers
pub mod Reductions
pub mod Joins
pub mod PowersetLaws
pub mod Commands
