pub mod Keys
pub mod Lending
pub mod Listing
pub mod Table
