mod FractionLemmas
mod MakerLemmas
mod MapLemmas
pub mod OperatorLemmas
mod WideningLemmas
