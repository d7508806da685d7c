pub mod Loops
pub mod Runs
pub mod Rounds
pub mod Analysis
