pub mod Flat
pub mod Marked
pub mod LastRows
pub mod WordRows
