mod ChangeLemmas
pub mod EffectLemmas
pub mod FaultOrder
pub mod FoundOperands
mod FractionTexts
pub mod PairLemmas
pub mod PerformedLemmas
pub mod StrictTexts
mod TextFaults
