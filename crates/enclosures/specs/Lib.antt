pub mod Boxes
pub mod Ways
pub mod Differences
