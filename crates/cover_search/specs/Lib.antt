pub mod Inequalities
pub mod Regions
pub mod Branches
pub mod Pieces
pub mod Parts
pub mod Conversions
