pub mod Files
pub mod OtherSystems
