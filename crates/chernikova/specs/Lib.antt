pub mod Faults
pub mod Conversion
pub mod Plans
pub mod Beside
pub mod Orders
pub mod Rooms
