pub mod Numbers
pub mod Terms
pub mod Sums
pub mod Values
pub mod Reading
pub mod Texts
pub mod Systems
pub mod OneReading
