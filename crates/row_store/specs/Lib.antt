pub mod Stores
pub mod Vectors
pub mod Values
pub mod Changes
pub mod Faults
