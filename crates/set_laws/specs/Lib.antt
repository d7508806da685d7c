pub mod JoinedSets
pub mod Asking
pub mod GeneratorLaws
