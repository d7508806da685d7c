pub mod Parts
pub mod Tasks
