pub mod TurnedOrder
mod KeyLemmas
pub mod Rankings
pub mod Places
pub mod Insertions
