pub mod Faults
pub mod Overflows
