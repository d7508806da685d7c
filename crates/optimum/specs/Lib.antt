pub mod Values
pub mod Relations
pub mod Search
pub mod Suprema
pub mod Laws
pub mod Showing
