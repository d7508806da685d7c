pub mod Systems
pub mod Steps
pub mod Turns
pub mod Reaches
pub mod Conversions
pub mod Commands
pub mod Changes
