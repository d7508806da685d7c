pub mod Acts
pub mod Sets
pub mod Sameness
pub mod Truth
pub mod Laws
pub mod Prints
pub mod Allowed
pub mod Scripts
