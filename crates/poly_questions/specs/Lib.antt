pub mod Files
pub mod Lattice
pub mod Meanings
pub mod OneAnswer
pub mod Optima
pub mod Questions
