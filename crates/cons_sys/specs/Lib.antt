pub mod Kinds
pub mod Constraints
pub mod Testing
