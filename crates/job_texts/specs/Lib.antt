pub mod Conversions
pub mod Outcomes
pub mod Samples
