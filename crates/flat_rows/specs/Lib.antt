pub mod Flat
pub mod FlatLends
pub mod Words
