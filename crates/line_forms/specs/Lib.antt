pub mod CommandWords
pub mod Fields
pub mod Laws
pub mod Layouts
pub mod Machines
pub mod Slots
pub mod Words
