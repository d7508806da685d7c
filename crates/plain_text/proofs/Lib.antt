pub mod Capped
pub mod Decimals
pub mod LineCuts
