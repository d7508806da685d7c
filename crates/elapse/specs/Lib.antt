pub mod ElapsedPoints
pub mod Directions
pub mod Elapses
pub mod ElapseLaws
