pub mod AddedVariables
pub mod Results
pub mod Refusals
pub mod PairConversions
pub mod Laws
